-- What stands in scratch, and the four ways out.
pub mod DuesOutcome
