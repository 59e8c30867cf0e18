-- Operators and monoids on any words.
pub mod GuardedWords
