pub mod Asked
pub mod Boxes
pub mod Following
pub mod Runs
