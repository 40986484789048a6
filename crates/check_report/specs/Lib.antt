pub mod Calls
pub mod Up
pub mod Laws
