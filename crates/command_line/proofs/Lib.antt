pub mod Found
pub mod Taken
pub mod Refusals
pub mod Sound
pub mod WorkedWords
pub mod WorkedChoices
pub mod Told
pub mod Rests
