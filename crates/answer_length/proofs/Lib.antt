-- The heads of generators alone are as many as the product of their tables' rows, and each has as many words.
pub mod Products
pub mod HeadCount
pub mod CollectionLength
