pub mod Uses
pub mod Closed
pub mod Round
pub mod Formed
pub mod Zeros
pub mod Writing
pub mod Statements
pub mod Follows
