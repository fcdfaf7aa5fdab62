pub mod Checks
pub mod Texts
pub mod Uses
pub mod CodeTables
pub mod Codes
pub mod Floating
pub mod FloatingFrames
