pub mod RowLemmas
pub mod FitLemmas
pub mod NameLemmas
pub mod WorkedCalls
pub mod KindsMade
pub mod KindsKept
