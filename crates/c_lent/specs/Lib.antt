pub mod Lent
pub mod Laws
