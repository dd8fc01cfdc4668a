pub mod Lines
pub mod Moments
pub mod RowsExports
pub mod Sendings
