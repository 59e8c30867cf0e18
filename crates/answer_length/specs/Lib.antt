-- The length of an answer that the rows of its tables alone tell.
pub mod LengthByRows
