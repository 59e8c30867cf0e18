-- What the functions that read a tariff ask and give.
pub mod Contract
