pub mod Ends
pub mod Found
pub mod Head
pub mod Whole
pub mod Turns
pub mod Version
