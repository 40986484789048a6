pub mod EdgeRows
pub mod Laws
