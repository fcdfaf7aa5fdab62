pub mod Lines
pub mod Tables
pub mod Images
pub mod Initializing
