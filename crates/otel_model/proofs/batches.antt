pub mod Grouping
pub mod Tables
pub mod Writes
pub mod Streams
pub mod Providers
pub mod Laws
