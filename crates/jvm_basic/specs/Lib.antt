pub mod Outcomes
pub mod Copies
pub mod Rules
pub mod Laws
pub mod Needs
pub mod Hot
