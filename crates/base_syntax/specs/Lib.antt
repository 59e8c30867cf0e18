-- A monoid's start, combining step and last step on words; the numbers of operators and monoids.
pub mod MonoidWord
pub mod Numbers
