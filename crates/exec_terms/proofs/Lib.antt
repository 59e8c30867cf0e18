-- What terms over the places of a row come to: one law for each way out of the readers.
pub mod TermBounds
pub mod ReaderExits
mod KeptNumbers
pub mod GateExits
mod PartsExits
pub mod FormAgreement
pub mod PartsText
pub mod HeadParts
pub mod PartsPre
pub mod PartsBefore
pub mod PartsSettled
