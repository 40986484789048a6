pub mod Areas
pub mod Faces
pub mod Grid
pub mod Statements
pub mod Doubled
pub mod Total
