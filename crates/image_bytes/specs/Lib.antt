pub mod Laws
pub mod Patterns
