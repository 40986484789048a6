pub mod Kept
pub mod Checked
pub mod Statements
pub mod Formed
