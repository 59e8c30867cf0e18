-- What the checks give.
pub mod GeneratorFits
pub mod Judgement
pub mod Refold
pub mod RawArranged
pub mod StoredTables
pub mod Lending
