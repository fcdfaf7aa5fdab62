mod Lists
pub mod WorkedClass
mod WorkedLoads
mod WorkedReports
mod WorkedTree
mod WorkedVersion
