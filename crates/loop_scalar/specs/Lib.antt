-- A form's value as one word.
pub mod Contract
