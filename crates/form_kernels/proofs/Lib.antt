-- Laws of plain forms: on rows, and at places.
pub mod PlainWords
pub mod LookPlaces
pub mod Fuel
pub mod PlainForms
pub mod ReaderExits
