pub mod Laid
pub mod Records
pub mod Room
pub mod Statements
