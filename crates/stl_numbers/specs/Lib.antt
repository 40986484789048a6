pub mod Numbered
pub mod Met
pub mod Laid
pub mod Corners
pub mod Turns
pub mod Meshes
