-- Values compared by their written words: by a type, and by the type at a place; how deep a type is.
pub mod TotalCompare
pub mod Contract
pub mod Depth
