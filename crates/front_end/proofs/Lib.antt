-- What the composition of the passes needs.
pub mod LentChecks
pub mod LentForm
pub mod QuestionLimits
pub mod AcceptedRanges
pub mod PassChain
pub mod MeasuredRoot
pub mod Exits
pub mod PrepareExits
