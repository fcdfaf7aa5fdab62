pub mod BeforeStart
pub mod Starts
pub mod StartLoads
pub mod StartSound
