-- What reading and writing the words of a normal form comes to.
pub mod NodeWords
pub mod ReadBack
pub mod Operands
