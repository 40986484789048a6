pub mod Sums
pub mod Products
pub mod Squares
