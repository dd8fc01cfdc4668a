pub mod Collections
pub mod Handles
pub mod Observations
pub mod Pipelines
pub mod Streams
pub mod Views
pub mod Known
