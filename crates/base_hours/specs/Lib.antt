-- What the functions about open minutes ask and give.
pub mod Contract
