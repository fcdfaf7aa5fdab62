pub mod Draws
pub mod Names
pub mod Programs
pub mod Chains
pub mod Making
pub mod Fits
pub mod Members
pub mod Generated
