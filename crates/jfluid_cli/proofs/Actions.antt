pub mod ActionLemmas
pub mod Chosen
pub mod NamedRoots
pub mod Alternating
pub mod Rootless
