-- Laws of paired logs.
pub mod Cases
pub mod Distance
pub mod Run
pub mod MostPairs
pub mod OwnPairs
pub mod RecordsLength
pub mod RecordsRead
pub mod PairLogs
