pub mod Ops
pub mod Worked
