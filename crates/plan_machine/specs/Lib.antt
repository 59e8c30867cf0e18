-- Answering by plan, one offered row at a time.
pub mod Program
pub mod Machine
pub mod Offers
pub mod MachineWords
pub mod AnswerText
