pub mod Tables
pub mod Frames
pub mod Spelling
pub mod Moves
pub mod DebugTables
pub mod Conditions
