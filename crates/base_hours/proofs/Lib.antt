-- Open minutes: of a window, of all windows, of the years.
pub mod Windows
pub mod Minutes
pub mod Exits
