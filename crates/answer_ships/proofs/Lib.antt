-- Laws of the type of ships.
pub mod QuestionType
pub mod PreparedShips
pub mod Exits
