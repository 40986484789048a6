pub mod Steps
pub mod Sizes
pub mod Verdicts
