-- How much each node writes, as words in scratch.
pub mod SizeWords
