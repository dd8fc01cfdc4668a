pub mod RowsConsumers
pub mod RowsExpositions
pub mod RowsNames
pub mod RowsNumbers
pub mod RowsRequests
