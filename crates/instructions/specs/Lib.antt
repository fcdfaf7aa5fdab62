pub mod Acts
pub mod Elements
