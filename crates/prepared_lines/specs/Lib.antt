pub mod Lines
pub mod Probes
