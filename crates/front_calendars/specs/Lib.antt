-- The calendars that a question's nodes name.
pub mod LentNodes
