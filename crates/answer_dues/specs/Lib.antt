-- Draughts in the buffer that give way to their cents.
pub mod Contract
