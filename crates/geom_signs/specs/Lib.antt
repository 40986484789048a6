pub mod Signs
pub mod Certified
