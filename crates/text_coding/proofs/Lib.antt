pub mod UnitLemmas
pub mod SpellingLemmas
pub mod FrontLemmas
pub mod UnicodeLemmas
