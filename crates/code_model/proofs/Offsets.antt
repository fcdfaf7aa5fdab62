pub mod Lookups
pub mod Searches
pub mod Carried
