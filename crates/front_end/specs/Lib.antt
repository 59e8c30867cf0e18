-- The front end: what each of its parts finds in scratch, and leaves there.
pub mod LoadedQuestion
pub mod PartContracts
pub mod PrepareContract
