-- Days, dates and weekdays; calendars and the minutes at which they are open (document 02, E4).
pub mod Dates
pub mod Hours
