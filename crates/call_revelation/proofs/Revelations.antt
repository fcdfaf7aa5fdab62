pub mod FlagLemmas
pub mod Grown
pub mod Marking
pub mod Shown
pub mod First
