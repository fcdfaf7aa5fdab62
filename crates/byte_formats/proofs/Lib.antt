pub mod Items
pub mod Turns
pub mod Conditions
pub mod Many
pub mod Cuts
