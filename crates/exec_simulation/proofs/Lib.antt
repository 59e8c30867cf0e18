-- Laws of the words of a running plan.
pub mod PathWords
pub mod AccumulatorRoom
pub mod OperatorWrites
pub mod AccumulatorWrites
pub mod ControlMoves
pub mod TakeMoves
pub mod CollectionMoves
