pub mod PlaceLaws
pub mod Statements
