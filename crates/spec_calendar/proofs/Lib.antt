-- Days and dates undo each other; the first open minute is the least one; cases of the papers.
pub mod Table
pub mod Sums
pub mod Dates
pub mod FirstMinute
pub mod Cases
