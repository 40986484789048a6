pub mod Laws
pub mod Enclose
pub mod Vectors
