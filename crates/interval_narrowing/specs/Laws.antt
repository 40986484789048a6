-- The lemmas behind the laws of the operations, each file over those above it.
pub mod Numbers
pub mod Order
pub mod Rounding
pub mod Ends
pub mod Signs
pub mod Extremes
pub mod Times
