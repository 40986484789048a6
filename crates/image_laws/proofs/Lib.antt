pub mod Models
pub mod Numbers
pub mod Tables
pub mod Starts
pub mod Records
pub mod Statements
