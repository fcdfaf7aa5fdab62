pub mod Reading
pub mod CodeLayouts
pub mod Offsets
