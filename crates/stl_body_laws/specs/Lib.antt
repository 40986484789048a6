pub mod Terms
pub mod Evaluated
pub mod Met
pub mod Walked
pub mod Vertices
pub mod Dressed
pub mod Kept
pub mod Again
