-- Laws of the tables' descriptions and of the data's reading.
pub mod DataRecords
pub mod ByteReaders
mod ColumnBounds
pub mod TableCells
mod Stretches
mod NumberedTables
mod ReadLoop
pub mod ReadData
pub mod TableWords
pub mod Subsets
