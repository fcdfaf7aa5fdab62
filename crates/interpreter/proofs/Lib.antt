pub mod Silent
pub mod Loads
pub mod Moves
