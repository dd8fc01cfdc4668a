pub mod Hashed
pub mod Hashing
pub mod Contents
pub mod Keyed
pub mod Numbers
pub mod Slots
pub mod Faults
