-- Forms that on each row need nothing but its cells.
pub mod PlainForms
pub mod Contract
