pub mod LineSteps
pub mod Sounded
