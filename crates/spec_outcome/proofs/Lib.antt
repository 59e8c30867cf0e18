-- Theorems about the outcomes.
pub mod Cases
pub mod Checks
pub mod CheckOrder
pub mod AnswerLength
pub mod Agreement
pub mod RowOrder
pub mod WholeRecord
pub mod SameTables
pub mod Directions
pub mod DirectionCases
pub mod RowOrderBytes
pub mod RecordOrder
pub mod ScratchLimit
