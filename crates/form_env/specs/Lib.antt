-- The rows that generators stand for, and the tables that they range over.
pub mod Environment
pub mod NamedTables
