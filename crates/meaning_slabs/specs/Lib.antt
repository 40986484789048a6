pub mod Slabs
pub mod Judging
pub mod Evaluated
