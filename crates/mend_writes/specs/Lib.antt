pub mod Made
pub mod Facts
pub mod Laws
