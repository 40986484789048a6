pub mod Narrow
pub mod Digits
pub mod Laws
pub mod Evaluated
