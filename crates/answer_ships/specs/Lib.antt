-- The type of ships, read off the words of a normal form.
pub mod Contract
