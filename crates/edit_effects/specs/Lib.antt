pub mod Leaves
pub mod Laws
pub mod Statements
pub mod Meant
pub mod Read
