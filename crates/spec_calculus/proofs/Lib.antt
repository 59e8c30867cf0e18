-- Laws of the calculus.
pub mod Truths
pub mod Lists
pub mod Cases
pub mod Sorting
pub mod Order
pub mod Folds
pub mod Magnitude
pub mod WellFormed
pub mod StoredTables
