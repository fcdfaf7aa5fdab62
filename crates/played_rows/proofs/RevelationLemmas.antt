pub mod SceneLemmas
pub mod HappeningLemmas
pub mod RowLemmas
pub mod ToldLemmas
pub mod LookLemmas
pub mod MarkLemmas
pub mod FileLemmas
pub mod JudgingLemmas
