-- The cells above two rows of each column of a table by columns, in scratch.
pub mod Checkpoints
