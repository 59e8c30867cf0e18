-- Windows one after another, records one after another: the ways out of the functions that read calendars.
pub mod Windows
pub mod Records
pub mod Finding
