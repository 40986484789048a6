pub mod OpenLoop
pub mod Laws
