-- The tables' rules, and the ways out of the functions about dates.
pub mod Tables
pub mod Exits
