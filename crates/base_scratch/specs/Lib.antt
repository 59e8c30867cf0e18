-- The map of scratch, and words of it set to 0.
pub mod Map
pub mod ZeroedWords
