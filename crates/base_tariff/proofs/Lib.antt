-- Laws of the reader of a tariff.
pub mod Laws
