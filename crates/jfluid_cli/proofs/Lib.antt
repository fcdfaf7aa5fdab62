pub mod Commands
pub mod Actions
pub mod Files
pub mod Runs
pub mod Reports
