pub mod MovingLemmas
pub mod NamingLemmas
pub mod RoomLemmas
