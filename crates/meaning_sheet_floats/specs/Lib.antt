pub mod Exactly
pub mod Sized
pub mod Terms
pub mod Fans
pub mod Bodies
pub mod Statements
pub mod Evaluated
