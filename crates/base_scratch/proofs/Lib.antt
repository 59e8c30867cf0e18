-- Laws of words set to 0.
pub mod Laws
