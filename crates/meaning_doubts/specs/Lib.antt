pub mod Doubts
pub mod Opened
pub mod Laws
pub mod Telling
