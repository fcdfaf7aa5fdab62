pub mod Pools
pub mod Lengths
pub mod Fitting
