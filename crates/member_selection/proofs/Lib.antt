mod NumberLaws
pub mod KindLemmas
pub mod Loads
pub mod ObjectLemmas
mod Resolutions
pub mod Arguments
pub mod Going
pub mod MoreLoaded
pub mod KnownLemmas
pub mod SelectionLemmas
