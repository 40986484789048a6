pub mod Lookup
pub mod Inner
pub mod Laws
