-- What the writers of the normal form come to.
pub mod LaidWords
pub mod QuestionKept
pub mod WriterExits
pub mod TermCalls
pub mod QualifierCalls
pub mod ConditionCalls
pub mod LeafForms
pub mod SmallFunctions
pub mod FormInScratch
pub mod TableCollections
pub mod NormalFits
