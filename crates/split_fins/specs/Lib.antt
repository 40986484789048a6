pub mod Fins
pub mod Facts
pub mod Laws
