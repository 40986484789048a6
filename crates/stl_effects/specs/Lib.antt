pub mod Counts
pub mod Statements
pub mod Isolated
