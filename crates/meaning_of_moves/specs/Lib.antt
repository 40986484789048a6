pub mod Moves
pub mod Sets
pub mod Told
pub mod Same
pub mod Statements
