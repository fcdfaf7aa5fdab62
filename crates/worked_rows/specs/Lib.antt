pub mod Answers
pub mod Lines
pub mod Lists
pub mod Rows
pub mod Verdicts
