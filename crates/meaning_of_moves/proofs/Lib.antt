pub mod Statements
pub mod Adding
pub mod Evaluated
