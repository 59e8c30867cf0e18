-- What refusal 28's check answers.
pub mod CutBounds
