-- Laws of charging in the buffer.
pub mod Laws
