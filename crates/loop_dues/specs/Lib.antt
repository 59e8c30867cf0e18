-- Answering with a tariff by loops.
pub mod Contract
