-- Calendars as bytes (41); what the calls about days and hours give (41, 42).
pub mod CalendarBytes
pub mod Calls
