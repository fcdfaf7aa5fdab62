pub mod Machines
pub mod Shown
pub mod Fresh
pub mod Loaded
pub mod KeptOn
