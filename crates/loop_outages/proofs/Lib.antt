-- The subsets of a table's rows by their bits, the tables with such rows in scratch, and the ways out.
mod SubsetCounts
mod SubsetTables
pub mod Outcome
mod Exits
