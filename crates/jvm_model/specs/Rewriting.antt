pub mod StandsForRun
pub mod Versions
pub mod ImageTables
pub mod Images
pub mod StandsFor
