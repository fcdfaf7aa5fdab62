pub mod BegunLemmas
pub mod LineReferences
pub mod ReferenceSteps
pub mod CallerLemmas
pub mod TargetLemmas
