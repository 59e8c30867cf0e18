-- Laws of paired logs in bytes.
pub mod Times
pub mod Moves
pub mod Stores
pub mod Laying
pub mod ThreeRecords
pub mod OwnRefusals
pub mod DescribedLogs
pub mod Outcome
