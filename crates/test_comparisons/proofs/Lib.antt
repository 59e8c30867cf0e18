-- Laws of answering with its comparisons counted, and of the call.
pub mod RowColumns
pub mod CountedAnswer
pub mod Call
pub mod MostComparisons
