pub mod BuiltInLoads
pub mod InitializingStacks
pub mod InitializingParts
