-- What the words of values come to, and one law for each way out of the evaluator.
pub mod HeadWords
pub mod SkippedRows
pub mod WordBounds
mod NodeMonoid
pub mod Exits
mod MergedRows
