-- What the engine's passes are proved over: a question kept as nodes, and its normal form as words.
pub mod NodeTable
pub mod NodeForms
pub mod FormWords
pub mod QuestionNodes
pub mod CappedOffsets
pub mod Writer
