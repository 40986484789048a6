pub mod Absent
pub mod TwoTold
pub mod Statements
pub mod Blades
