pub mod Halves
pub mod Ties
