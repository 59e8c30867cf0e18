-- What binding a generator changes and what it leaves, and the rows that words stand for.
pub mod SameForm
pub mod BoundRows
pub mod HeldTables
pub mod NamedTables
