pub mod Evaluated
pub mod Statements
pub mod Alike
pub mod Stone
