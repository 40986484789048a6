pub mod PlaceRows
pub mod FinRows
pub mod Laws
