pub mod Answers
pub mod Told
pub mod Laws
