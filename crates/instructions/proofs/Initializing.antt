pub mod Carried
pub mod Beneath
