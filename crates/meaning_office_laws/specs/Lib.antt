pub mod Terms
pub mod Passed
pub mod Refused
pub mod Alone
pub mod Statements
pub mod Computed
