-- Words of the answer buffer: how a place is read, and what moving blocks of words leaves.
pub mod TotalReads
pub mod Blocks
