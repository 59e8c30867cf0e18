-- Laws of the words of sizes.
pub mod SizeWords
