pub mod Pieces
pub mod Facts
pub mod Laws
pub mod Steps
