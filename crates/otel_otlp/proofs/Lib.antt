pub mod Depths
pub mod Digits
pub mod Fronts
pub mod PointTokens
pub mod Says
pub mod Steps
