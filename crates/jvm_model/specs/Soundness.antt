pub mod Sound
pub mod SoundListings
pub mod Suited
pub mod Calls
pub mod Climbing
pub mod Whole
pub mod SoundPrograms
