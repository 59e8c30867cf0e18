-- What holds of the desk's text.
pub mod RecordOrder
pub mod Directions
