-- Laws of counted outages.
pub mod Cases
pub mod Subsets
pub mod WithRows
pub mod SameOutages
