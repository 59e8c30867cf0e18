-- Tables and questions as bytes: refusals 11 to 13 and 21 to 23.
pub mod Record
pub mod Columns
pub mod Data
pub mod Reader
