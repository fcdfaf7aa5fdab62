pub mod References
pub mod Revelations
pub mod Classes
