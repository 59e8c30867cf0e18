-- What the reader's functions ensure: by the definitions of spec_encoding/specs, and by how the nodes lie in scratch.
pub mod ReaderScratch
pub mod RecordFront
pub mod RecordKinds
pub mod ReaderContracts
