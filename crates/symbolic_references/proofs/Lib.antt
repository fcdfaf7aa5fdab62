pub mod Positions
mod ExceptionKinds
mod ConstantsSet
mod Behind
mod NativeLemmas
mod NativesKept
mod PassingNatives
mod TargetLemmas
pub mod Slots
mod Quiet
mod Carried
mod Attempted
mod ArraysMade
mod ArrayRoom
pub mod Again
mod CalleeLemmas
pub mod PassingLemmas
