-- What a part that answers has settled.
pub mod SettledOutcome
