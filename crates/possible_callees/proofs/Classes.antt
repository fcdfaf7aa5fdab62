pub mod RankLemmas
pub mod LineageLemmas
pub mod SameLoaded
