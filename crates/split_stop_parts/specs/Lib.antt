pub mod Told
pub mod Laws
