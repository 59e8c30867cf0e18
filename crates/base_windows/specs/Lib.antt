-- The lent calendars in scratch.
pub mod KeptCalendars
