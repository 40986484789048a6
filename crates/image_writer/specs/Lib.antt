pub mod Answers
pub mod Rows
pub mod Laws
