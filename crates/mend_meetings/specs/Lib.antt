pub mod Machine
pub mod Facts
pub mod Laws
