mod LoadedClassLemmas
mod LoadLemmas
pub mod LoadWalks
mod LoadLoop
mod Walked
mod Begun
pub mod Subtypes
mod OverridingLaws
pub mod OverridingTest
mod Chains
mod PassedOn
mod Searches
mod WorkedAnswers
mod WorkedCalls
mod Inherited
