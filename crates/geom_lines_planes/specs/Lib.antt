pub mod Refuse
pub mod Refusals
pub mod Geometry
pub mod Size
pub mod Laws
