pub mod Slots
pub mod Adding
pub mod Releasing
pub mod Replacing
pub mod Room
