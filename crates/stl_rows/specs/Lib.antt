pub mod Rows
pub mod Facts
pub mod Laws
