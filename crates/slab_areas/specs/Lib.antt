pub mod Measured
pub mod Laws
