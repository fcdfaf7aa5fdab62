pub mod LineFamilies
pub mod CellLemmas
pub mod KnownNames
pub mod Tied
pub mod Entries
pub mod Dimensions
