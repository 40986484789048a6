pub mod Answers
pub mod Told
pub mod Stones
pub mod Laws
