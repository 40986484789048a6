pub mod Sizes
pub mod Parts
pub mod Terms
pub mod Takes
pub mod Orders
pub mod Largest
pub mod Statements
