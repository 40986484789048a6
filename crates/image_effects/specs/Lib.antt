pub mod Records
pub mod Passed
pub mod Tables
pub mod Statements
pub mod Fits
pub mod Night
