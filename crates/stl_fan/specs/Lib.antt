pub mod Pens
pub mod Laws
