pub mod Joins
pub mod Acting
pub mod Points
pub mod Unchanged
pub mod Acts
