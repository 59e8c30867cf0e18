-- Bringing a value to its written form in the answer buffer: what each part leaves there, and by how many comparisons.
pub mod Comparisons
pub mod CompactingWalk
