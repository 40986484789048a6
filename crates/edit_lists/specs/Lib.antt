pub mod Answers
pub mod Laws
pub mod Records
pub mod Statements
pub mod Place
pub mod PlaceLaws
