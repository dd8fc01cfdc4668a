pub mod EqualExemplars
pub mod CanonicalSets
pub mod ReadOff
