pub mod Fin
pub mod Laws
