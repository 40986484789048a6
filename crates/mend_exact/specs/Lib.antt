pub mod Entries
pub mod Marks
pub mod Put
pub mod Telling
pub mod Kept
pub mod Steps
pub mod Present
pub mod Statements
