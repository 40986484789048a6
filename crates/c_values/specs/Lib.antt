pub mod Crossing
pub mod Given
pub mod Laws
