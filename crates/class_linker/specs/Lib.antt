pub mod LoadedClasses
pub mod States
pub mod Linkers
pub mod DeclaredMethods
pub mod Passing
