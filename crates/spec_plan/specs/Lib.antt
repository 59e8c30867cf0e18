-- The plan: what it is, what its operators do, which one a question has, how it is printed.
pub mod Plan
pub mod Operators
pub mod Planner
pub mod Lines
