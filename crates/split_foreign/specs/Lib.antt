pub mod Status
pub mod Facts
pub mod Laws
pub mod Met
