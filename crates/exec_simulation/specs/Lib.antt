-- The words of a running plan, and the state of the machine that they stand for.
pub mod WiredProgram
pub mod PathPlaces
pub mod AccumulatorRoom
pub mod SimulationRelation
pub mod BetweenOffers
pub mod RowReads
