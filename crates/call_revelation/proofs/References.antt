pub mod ReferenceLemmas
pub mod CalledLemmas
pub mod BookLemmas
pub mod Callers
