pub mod Mends
pub mod Words
pub mod Laws
