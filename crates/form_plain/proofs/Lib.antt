-- Laws of plain forms on rows, row by row and by one column's cells.
pub mod PlainWords
pub mod PlainScans
