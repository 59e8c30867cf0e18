-- How much of the normal form each node writes: what is counted, what is asked of the nodes, what is kept of them, and what
-- the parts of the code answer.
pub mod Measure
pub mod MeasurableNodes
pub mod KeptSizes
pub mod PartContracts
