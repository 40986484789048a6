pub mod Refused
pub mod Alone
pub mod Statements
pub mod Shared
