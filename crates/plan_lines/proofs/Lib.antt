-- What laying comes to, and one law for each way out of the writers.
mod JoinedConditions
mod Exits
mod PlanCall
