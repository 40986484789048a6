pub mod Laws
pub mod Meshes
pub mod Rising
pub mod Records
pub mod Sound
pub mod Room
pub mod Back
pub mod Statements
