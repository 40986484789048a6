pub mod Grid
pub mod Laws
