-- What makes a question that can be read a question of the calculus: refusals 24, 25, 42 and 26.
pub mod Scope
pub mod Types
pub mod Calendars
