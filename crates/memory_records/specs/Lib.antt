pub mod Seen
pub mod Laws
