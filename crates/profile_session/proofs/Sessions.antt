pub mod Begun
pub mod OpenPaths
pub mod FirstParts
pub mod Sessions
