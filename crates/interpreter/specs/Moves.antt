pub mod Passing
pub mod Trying
pub mod Hands
pub mod Quickly
pub mod Onward
