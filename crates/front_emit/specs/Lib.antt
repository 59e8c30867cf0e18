-- The words of the normal form, written into scratch.
pub mod WriterResult
pub mod WriterStart
pub mod ConditionShape
pub mod WholeForm
