pub mod Exchange
pub mod Fins
pub mod Evaluated
pub mod Sides
pub mod Splits
pub mod Grid
pub mod Statements
