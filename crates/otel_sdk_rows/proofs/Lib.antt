pub mod RowWords
pub mod RowsCallbacks
pub mod RowsCalls
pub mod RowsHeadline
pub mod RowsKnown
pub mod RowsReaders
pub mod RowsShared
pub mod RowsTyped
