-- What laying comes to, and numbers in decimal.
pub mod LaidText
pub mod Decimals
