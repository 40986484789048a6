pub mod Slots
pub mod Laws
