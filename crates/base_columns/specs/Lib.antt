-- What the parts that turn a table's record ask and give.
pub mod Contract
