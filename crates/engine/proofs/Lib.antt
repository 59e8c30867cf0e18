-- From the parts of a call to its outcome.
pub mod Outcomes
pub mod Calls
mod TariffCalls
mod OutageCalls
pub mod PortionCalls
pub mod RotaCalls
