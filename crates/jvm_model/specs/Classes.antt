pub mod Lookup
pub mod Selection
pub mod Layouts
pub mod Kinds
pub mod Load
pub mod SuperCalls
