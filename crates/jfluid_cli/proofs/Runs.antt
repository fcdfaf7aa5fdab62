pub mod Underway
pub mod Admitted
pub mod Complete
pub mod BeforeTheRun
pub mod Carried
pub mod Profiled
