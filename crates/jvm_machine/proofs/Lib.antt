pub mod Steps
pub mod Probes
pub mod Versions
pub mod States
