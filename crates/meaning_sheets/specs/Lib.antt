pub mod Sheets
pub mod Counting
pub mod Evaluated
