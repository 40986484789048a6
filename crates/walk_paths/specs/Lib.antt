pub mod Paths
pub mod Laws
