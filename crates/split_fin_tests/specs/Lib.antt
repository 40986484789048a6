pub mod FinTests
pub mod Laws
pub mod FaceTests
