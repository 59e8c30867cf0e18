-- The date calls undo each other, the first-open call gives the least open minute; cases of the papers.
pub mod Calls
pub mod Cases
