pub mod Computed
mod Groups
mod WellFormed
pub mod NameLemmas
mod NativeLemmas
mod NativeNumbers
pub mod NativePlaces
mod Sound
