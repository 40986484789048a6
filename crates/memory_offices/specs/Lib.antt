pub mod Sight
pub mod Laws
