pub mod Sources
pub mod Laws
