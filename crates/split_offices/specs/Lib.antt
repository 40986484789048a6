pub mod Calls
pub mod Heard
pub mod Passed
pub mod Refused
pub mod Statements
