-- The normal form of a question, what refusals 27 and 28 measure on it, and the rules that it is the end of.
pub mod Form
pub mod Normal
pub mod Size
pub mod Bound
pub mod Place
pub mod Rules
pub mod NoRule
