pub mod LoadKept
pub mod LoadsAgain
pub mod LoadedMoves
pub mod Library
pub mod LoadOrder
pub mod Among
