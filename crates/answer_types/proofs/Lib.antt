-- Laws of types in scratch and of skipping.
pub mod SkippedValues
pub mod Types
pub mod FlatSkip
pub mod Widths
pub mod ElementTypes
pub mod Segments
pub mod SkipExits
pub mod RawValueType
pub mod Elements
