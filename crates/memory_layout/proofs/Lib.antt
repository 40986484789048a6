pub mod Laws
pub mod TableRows
