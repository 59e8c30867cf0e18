-- A value's words in the answer buffer.
pub mod HeadLoops
pub mod LaidValues
pub mod Contract
