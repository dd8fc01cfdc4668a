pub mod CanonLaws
pub mod EqualParts
pub mod Merging
pub mod Permuting
pub mod Rising
pub mod Sorting
