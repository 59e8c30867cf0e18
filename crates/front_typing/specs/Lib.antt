-- The types of a question's nodes, and their shapes: what a type is at its head.
pub mod NodeTypes
pub mod Shapes
pub mod ShapeWords
