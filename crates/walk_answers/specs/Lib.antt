pub mod Calls
pub mod Decoded
pub mod Laws
