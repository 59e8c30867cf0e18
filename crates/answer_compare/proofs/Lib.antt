-- Laws of comparing.
pub mod FlatCompare
pub mod CompareExits
pub mod Depth
pub mod ValueOrder
pub mod SegmentCompare
