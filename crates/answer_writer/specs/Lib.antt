-- Words in the answer buffer.
pub mod LaidWords
pub mod Shapes
pub mod Contract
pub mod RecordFields
