pub mod Points
pub mod NoteLaws
pub mod Laws
