pub mod Good
pub mod Parts
pub mod Kept
pub mod Explicit
pub mod Spelled
pub mod Tested
pub mod Facts
