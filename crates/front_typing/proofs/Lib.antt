pub mod NodeTypes
pub mod ShapesOfTypes
pub mod Exits
pub mod ShapeWords
pub mod QuestionTypes
