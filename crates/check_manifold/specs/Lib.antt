pub mod Manifold
pub mod Laws
