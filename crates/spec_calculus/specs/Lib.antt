-- The calculus of document 01: what is asked, what a value is, how values are ordered, what a question means.
pub mod Lists
pub mod Syntax
pub mod Value
pub mod Lending
pub mod Order
pub mod Rearrangement
pub mod Greatest
pub mod Monoid
pub mod Meaning
pub mod Cases
