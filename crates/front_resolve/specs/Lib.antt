-- The head of a node: what is left when names, fields of records and generators over comprehensions are followed.
pub mod Resolved
