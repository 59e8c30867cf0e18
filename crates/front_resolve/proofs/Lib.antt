-- Laws of following names and fields.
pub mod Exits
pub mod CallCount
