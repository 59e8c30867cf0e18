-- What the functions about days ask and give.
pub mod Contract
