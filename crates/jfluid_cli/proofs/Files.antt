pub mod ToldFiles
pub mod ToldPlans
pub mod Spelled
pub mod Generating
