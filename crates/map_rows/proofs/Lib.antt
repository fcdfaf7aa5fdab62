pub mod FileLemmas
pub mod NameLemmas
pub mod WorkedNames
