pub mod ClassShapes
pub mod Comparing
pub mod Reading
pub mod Swaps
