-- Laws of the bytes.
pub mod Cases
pub mod ColumnCases
pub mod Folding
pub mod Arrangement
pub mod Data
pub mod ColumnBounds
pub mod Columns
pub mod ColumnRecords
pub mod Refusals
pub mod QuestionLimits
