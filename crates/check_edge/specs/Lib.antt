pub mod Edge
pub mod Laws
