pub mod Keys
pub mod Sorted
