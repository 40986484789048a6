pub mod Pass
pub mod Facts
pub mod Laws
pub mod Beside
pub mod BesideFacts
pub mod BesideLaws
