pub mod SignsBy
pub mod Decided
pub mod Kept
