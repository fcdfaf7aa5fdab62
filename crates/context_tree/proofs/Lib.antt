pub mod Paths
pub mod Nodes
pub mod Sums
pub mod Events
pub mod Projection
