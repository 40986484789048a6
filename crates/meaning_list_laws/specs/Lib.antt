pub mod Tests
pub mod Lists
pub mod Tables
pub mod Findings
