pub mod Records
pub mod Reading
pub mod Buffers
pub mod Spelled
pub mod Rooms
