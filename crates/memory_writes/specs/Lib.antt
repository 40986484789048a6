pub mod Put
pub mod Over
pub mod Frame
pub mod Change
pub mod Kept
