pub mod Truths
pub mod References
pub mod Classes
pub mod Numbers
