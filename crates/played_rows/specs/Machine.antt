pub mod Ready
pub mod Played
pub mod Names
pub mod Words
pub mod Reading
pub mod Causes
pub mod Making
pub mod Judging
