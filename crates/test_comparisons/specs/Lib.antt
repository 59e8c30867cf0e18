-- How many comparisons an answer takes.
pub mod ComparedAnswer
pub mod MostComparisons
pub mod Contract
