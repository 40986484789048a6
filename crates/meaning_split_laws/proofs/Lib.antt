pub mod Refusals
pub mod Struck
pub mod Gained
pub mod Statements
pub mod Version
