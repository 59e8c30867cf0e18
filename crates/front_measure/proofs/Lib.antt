-- How much a node writes, from how much the nodes before it do.
pub mod AnyEnvironment
pub mod NodeWeights
pub mod RootFits
pub mod NodeLocality
pub mod PartExits
pub mod WeighExits
pub mod Frame
pub mod LoopInvariant
pub mod MeasureResult
pub mod LaidQuestion
