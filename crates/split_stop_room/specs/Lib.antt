pub mod RoomRows
pub mod Laws
