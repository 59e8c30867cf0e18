-- The lent data: a table's description in one word, and the reading of the data's records.
pub mod Description
pub mod ColumnBounds
pub mod DataReader
pub mod Stretches
