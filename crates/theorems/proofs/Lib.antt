-- What the contracts of the open calls say of all data, questions, buffers and scratch.
pub mod BothWays
pub mod RowOrder
pub mod Dues
pub mod Outages
pub mod Portions
pub mod SameRun
pub mod SameTables
pub mod RecordOrder
pub mod Directions
pub mod Logs
pub mod Rota
pub mod ScratchLimit
