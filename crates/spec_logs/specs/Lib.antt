-- "Ship's log against quay log" (document 02, E11): the procedure, what a pairing is, the three tables as records, the outcome of the call.
pub mod Logs
pub mod Pairing
pub mod Records
pub mod PairLogs
