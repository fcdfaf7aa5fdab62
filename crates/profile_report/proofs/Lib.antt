pub mod Texts
pub mod Children
pub mod Listed
