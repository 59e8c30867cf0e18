-- Theorems about the steps.
pub mod Places
pub mod Weights
pub mod Types
pub mod Names
pub mod Renaming
pub mod Records
pub mod Strategy
pub mod LeadsToNormal
pub mod NoStepLeft
