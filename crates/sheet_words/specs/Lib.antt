pub mod Words
pub mod Totals
pub mod Complement
pub mod Laws
