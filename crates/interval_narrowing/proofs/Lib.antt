pub mod Laws
pub mod Narrowing
