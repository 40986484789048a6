pub mod Entries
pub mod Offices
pub mod Sheets
pub mod Isolated
