pub mod Shapes
pub mod Stages
pub mod Twins
pub mod Admission
pub mod Profiling
pub mod SoundBuiltIn
