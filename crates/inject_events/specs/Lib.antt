pub mod Probing
pub mod Settings
pub mod Tables
pub mod Rewriting
pub mod Answers
pub mod SoundTables
pub mod SmallCodes
