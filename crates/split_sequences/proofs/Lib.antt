pub mod Statements
pub mod Memory
pub mod Rows
