pub mod Statements
pub mod Due
pub mod One
pub mod All
pub mod Again
