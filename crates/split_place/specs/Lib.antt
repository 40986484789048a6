pub mod Place
pub mod Facts
pub mod SplitNumber
pub mod Laws
