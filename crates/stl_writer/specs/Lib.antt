pub mod Answers
pub mod Sketches
pub mod Laws
