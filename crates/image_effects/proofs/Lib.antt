pub mod Night
pub mod Statements
