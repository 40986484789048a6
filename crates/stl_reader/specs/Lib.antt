pub mod Answers
pub mod Facts
pub mod Laws
pub mod Statements
