-- The bound of numbers.
pub mod Limit
