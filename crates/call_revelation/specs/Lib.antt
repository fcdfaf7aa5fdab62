pub mod Flags
pub mod Books
pub mod CalledClasses
pub mod Reveals
