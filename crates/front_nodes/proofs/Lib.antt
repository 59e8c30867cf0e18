-- Laws of the decoded table.
pub mod PostOrder
pub mod ReaderExits
pub mod SameTable
pub mod QualifierChain
pub mod TableHolds
pub mod Levels
pub mod Depths
pub mod Binders
pub mod Example
