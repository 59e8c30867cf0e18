-- An accepted question in scratch, and its raw words in the buffer.
pub mod PreparedQuestion
pub mod ChoiceSorts
pub mod FormTypes
pub mod FinishSettles
