pub mod Reads
pub mod Fields
pub mod Same
pub mod Stays
pub mod Statements
