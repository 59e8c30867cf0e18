-- Laws of one column's cells.
pub mod CellRange
pub mod CellLine
pub mod ColumnRows
