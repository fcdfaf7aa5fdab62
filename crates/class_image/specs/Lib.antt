pub mod Words
pub mod Imaging
