-- What the functions that read calendars ask and give.
pub mod Contract
