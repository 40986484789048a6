pub mod Lists
pub mod Statements
