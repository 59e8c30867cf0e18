-- The node table that the words of a question stand for, and what reading a node answers.
pub mod NodeTable
pub mod Look
pub mod Levels
pub mod QuestionTree
