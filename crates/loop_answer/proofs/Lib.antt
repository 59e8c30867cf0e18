-- What stands in scratch, and the two ways out.
pub mod ByLoopsOutcome
