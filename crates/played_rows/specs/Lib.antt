pub mod Files
pub mod Words
pub mod Names
pub mod Machine
pub mod Revelation
