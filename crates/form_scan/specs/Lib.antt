-- One column's cells on many rows.
pub mod CellRange
pub mod ColumnRows
