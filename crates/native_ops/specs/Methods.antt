pub mod Signatures
pub mod Rows
pub mod Named
pub mod Described
pub mod Calls
