pub mod SwapLists
pub mod MethodPlaces
pub mod SwappedClasses
pub mod Imaging
pub mod SwapImages
