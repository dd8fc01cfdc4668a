pub mod KeptLemmas
pub mod LastPlaces
pub mod RisingKeys
pub mod Referenced
pub mod FormLemmas
pub mod Placing
pub mod Searching
