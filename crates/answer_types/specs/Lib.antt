-- Values as their written words show them: which values a type has, how words are skipped by a type, how many words its values
-- have, and the type that the words of a normal form stand for.
pub mod TypedValues
pub mod Elements
pub mod TotalSkip
pub mod Columns
pub mod FlatTypes
pub mod Shape
pub mod Widths
pub mod ElementTypes
pub mod Segments
pub mod SkipContract
