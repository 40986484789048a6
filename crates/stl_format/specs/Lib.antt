pub mod Stl
pub mod Drawing
pub mod Evaluated
pub mod Laws
pub mod Statements
