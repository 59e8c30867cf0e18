-- From a question prepared in scratch to the outcome of answering by plan.
pub mod WholeBuffer
pub mod PlanValue
pub mod RawLength
pub mod PassResults
pub mod ByPlanOutcome
