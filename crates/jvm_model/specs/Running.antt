pub mod Constants
pub mod Applies
pub mod Moves
pub mod Normal
pub mod Run
pub mod Growth
pub mod Changes
pub mod Between
