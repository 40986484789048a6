pub mod After
pub mod Facts
pub mod Named
pub mod Rooms
