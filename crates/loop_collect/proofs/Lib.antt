-- What laying words comes to, and one law for each way out of the writers.
pub mod HeadLoops
pub mod LaidValues
pub mod ShapeMeanings
pub mod Exits
pub mod TwoRuns
