mod Loads
mod LoadedInOrder
mod ShortCodes
pub mod Runs
