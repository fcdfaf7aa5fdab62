pub mod Roots
pub mod Plans
pub mod Numbers
pub mod Lines
pub mod Bounds
