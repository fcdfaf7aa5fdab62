pub mod Lines
pub mod Originals
pub mod Moved
pub mod Closed
pub mod Homed
pub mod Places
pub mod ProgramPlaces
