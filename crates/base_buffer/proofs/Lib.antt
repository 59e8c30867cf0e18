-- Laws of reading and moving words.
pub mod TotalReads
pub mod Blocks
