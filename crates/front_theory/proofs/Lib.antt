-- What the nodes of a question come to and write, against its normal form.
pub mod FormCounts
pub mod Renumbering
pub mod Comparison
pub mod Locality
pub mod StaticCounts
pub mod QuestionNodes
pub mod CappedOffsets
pub mod Writer
pub mod Example
