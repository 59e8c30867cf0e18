-- Forms that on each row need nothing but its cells.
pub mod PlainWords
pub mod PlainScans
