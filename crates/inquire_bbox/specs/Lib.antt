pub mod Boxes
pub mod Laws
