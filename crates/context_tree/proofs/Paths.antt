pub mod SamePaths
pub mod Distinct
pub mod Within
