pub mod Regions
pub mod Laws
pub mod Whole
