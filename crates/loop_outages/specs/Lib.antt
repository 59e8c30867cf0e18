-- What the functions that count outages ask and give.
pub mod Contract
