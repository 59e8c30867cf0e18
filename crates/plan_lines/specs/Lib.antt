-- The lines of the plan that marked words stand for, laid into a byte buffer below a limit.
pub mod PartTexts
pub mod PlanCall
