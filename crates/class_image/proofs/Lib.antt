pub mod Profilable
pub mod Puts
