-- Laws of judging draughts.
pub mod Exits
