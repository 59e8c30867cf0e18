-- The pass over the nodes is 42's condition on the question that lies there.
pub mod Exits
pub mod LentQuestion
