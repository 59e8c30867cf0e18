-- Laws of signed words.
pub mod SignedWords
pub mod Limit
