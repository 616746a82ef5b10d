pub mod EntryNeeds
pub mod Need
pub use Rattle.file_room.specs.Room
pub use Rattle.file_room.specs.RoomFault
