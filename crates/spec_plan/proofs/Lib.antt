-- Theorems about the plan.
pub mod Cases
pub mod Examples
pub mod StreamRows
pub mod Nest
pub mod ConditionScope
pub mod ConditionHomes
pub mod Conditions
pub mod Slots
pub mod Growth
pub mod Unnesting
pub mod NumberedIsScoped
pub mod NoQuestion
