-- The laws of floats as numbers, each file over those above it.
pub mod Small
pub mod Pairs
pub mod Patterns
pub mod Steps
pub mod Central
pub mod Near
pub mod Order
pub mod Floats
pub mod Adjacent
pub mod Equal
pub mod Integers
