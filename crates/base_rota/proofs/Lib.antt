-- The quotas of a rota one by one.
pub mod Laws
