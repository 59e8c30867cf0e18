-- Laws of the node words.
pub mod NodeWords
