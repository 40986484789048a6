pub mod Splits
pub mod Bodies
pub mod Doubts
