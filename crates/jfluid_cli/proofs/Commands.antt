pub mod Accepted
pub mod OneCommand
mod WorkedWords
