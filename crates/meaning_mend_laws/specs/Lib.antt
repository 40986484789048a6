pub mod Terms
pub mod Steps
pub mod Kept
pub mod Reported
pub mod Checked
pub mod Formed
pub mod Statements
pub mod Computed
