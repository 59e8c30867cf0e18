-- What each open call gives back and leaves behind.
pub mod WrittenForm
pub mod Acceptance
pub mod Outcome
pub mod RowOrder
pub mod RecordOrder
pub mod Gives
pub mod Directions
pub mod Rota
pub mod ScratchLimit
