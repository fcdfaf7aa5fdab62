pub mod ActsLoad
pub mod LoadedApart
