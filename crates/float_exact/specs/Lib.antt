pub mod Exact
pub mod Worked
pub mod Grid
