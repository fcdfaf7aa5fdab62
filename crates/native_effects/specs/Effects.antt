pub mod Answers
pub mod Making
pub mod Ports
pub mod Worlds
