-- What the words of a monoid mean, and its number and an operator's.
pub mod MergedWords
pub mod Numbers
