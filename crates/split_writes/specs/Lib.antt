pub mod Written
pub mod Facts
pub mod Chain
