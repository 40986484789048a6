pub mod Statements
pub mod Follows
