pub mod Sizes
pub mod Parts
pub mod Takes
pub mod Orders
pub mod SameStones
pub mod Largest
pub mod Statements
