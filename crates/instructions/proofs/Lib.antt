pub mod Attempts
pub mod Silent
pub mod Loads
pub mod Initializing
pub mod Moves
