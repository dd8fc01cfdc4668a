pub mod StreamRows
pub mod Rows
pub mod RunRows
