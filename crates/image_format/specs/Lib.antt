pub mod Bytes
pub mod Fields
pub mod Image
pub mod Worked
