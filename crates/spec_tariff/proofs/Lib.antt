-- Laws of tariffs and dues.
pub mod OrderUnseen
pub mod Cases
pub mod SameDues
