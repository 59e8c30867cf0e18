-- Calendars in scratch: how they are laid and read; what was laid is read back.
pub mod Exits
pub mod ReadBack
