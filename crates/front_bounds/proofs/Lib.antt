-- What refusal 28's check relies on.
pub mod CutBounds
