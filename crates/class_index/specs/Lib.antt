pub mod Names
pub mod Orders
pub mod Members
pub mod Buckets
pub mod Indices
pub mod Meanings
