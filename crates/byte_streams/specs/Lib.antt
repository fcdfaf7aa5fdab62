pub mod Adapters
pub mod Calls
pub mod Memory
pub mod Streams
