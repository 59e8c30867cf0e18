-- Laws of the reader, bottom up.
pub mod LeafRecords
pub mod Records
pub mod TermSequences
pub mod Questions
