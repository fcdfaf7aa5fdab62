pub mod Tables
pub mod Ranks
pub mod Lineages
pub mod CodeReferences
