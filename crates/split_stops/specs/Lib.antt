pub mod SplitStop
pub mod Laws
pub mod Statements
