pub mod Usual
pub mod Areas
pub mod Grid
pub mod Faces
