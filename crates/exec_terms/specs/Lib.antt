-- Terms over the places of a row, read off scratch.
pub mod KeptWord
pub mod PlanColumns
pub mod Agreement
pub mod Contract
pub mod PartsWalk
