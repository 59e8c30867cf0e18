-- How many rows a pass offers.
pub mod OfferedRows
pub mod Contract
