-- What laying words comes to, and which values are one word.
pub mod LaidWords
pub mod Exits
pub mod OneWord
pub mod RecordFields
pub mod Counts
