pub mod Changes
pub mod Kinds
pub mod Kept
pub mod Cells
pub mod ArrayView
pub mod Objects
pub mod Interning
pub mod Heaps
