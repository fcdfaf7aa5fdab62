pub mod Points
pub mod Swaps
pub mod Turns
pub mod Sessions
