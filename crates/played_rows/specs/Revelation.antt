pub mod Lines
pub mod Rows
pub mod Scenes
pub mod Names
pub mod Reading
pub mod Files
pub mod Judging
