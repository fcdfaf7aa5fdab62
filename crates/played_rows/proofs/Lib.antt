mod FoundLemmas
mod ListLemmas
mod WordLemmas
mod MachineLemmas
mod RevelationLemmas
