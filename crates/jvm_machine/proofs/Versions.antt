pub mod Kept
pub mod HeldVersions
pub mod Released
pub mod Numbered
pub mod MarkedClasses
pub mod ImagedMethods
pub mod Installed
