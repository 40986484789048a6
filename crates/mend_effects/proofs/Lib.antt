pub mod All
pub mod Due
pub mod Statements
pub mod SecondRun
