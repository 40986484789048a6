pub mod Seen
pub mod Machines
