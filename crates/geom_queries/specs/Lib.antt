pub mod Queries
pub mod Laws
