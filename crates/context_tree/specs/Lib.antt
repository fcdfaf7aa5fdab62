pub mod Profiles
pub mod Counts
pub mod Seen
pub mod Laws
pub mod ChildLists
pub mod NodeTables
pub mod TreeViews
