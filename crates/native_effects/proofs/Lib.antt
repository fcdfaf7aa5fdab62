pub mod KindLemmas
pub mod ListLemmas
pub mod ObjectLemmas
pub mod TextLemmas
pub mod DigitLemmas
pub mod StoreLemmas
pub mod WorldLemmas
pub mod LimitLemmas
