-- An accepted question in scratch; what a call gives, and what a part does that answers.
pub mod PreparedQuestion
pub mod AnswerContract
