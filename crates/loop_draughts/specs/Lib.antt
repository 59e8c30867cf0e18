-- The draughts of heads, judged.
pub mod Contract
