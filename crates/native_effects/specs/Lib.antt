pub mod Inputs
pub mod Effects
