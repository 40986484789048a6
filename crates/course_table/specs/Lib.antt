pub mod Table
pub mod Facts
pub mod Laws
