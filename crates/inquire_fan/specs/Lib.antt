pub mod Fan
pub mod Laws
