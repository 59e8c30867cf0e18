-- Laws of turned records.
pub mod WrittenColumns
pub mod TurnedRecords
