pub mod Narrow
pub mod Laws
