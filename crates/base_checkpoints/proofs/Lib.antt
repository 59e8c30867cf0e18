-- Laws of checkpoints.
pub mod Laws
