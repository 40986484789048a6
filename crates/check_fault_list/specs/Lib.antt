pub mod List
pub mod Statements
