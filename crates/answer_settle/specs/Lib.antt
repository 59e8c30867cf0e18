-- What settles an accepted question whose raw words stand in the buffer.
pub mod SettleContract
