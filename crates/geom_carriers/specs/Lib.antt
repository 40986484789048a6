pub mod Found
pub mod Queries
pub mod Laws
