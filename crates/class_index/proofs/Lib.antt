mod IndexLemmas
pub mod OrderLemmas
pub mod MemberTexts
mod BucketLemmas
pub mod WorkedClasses
mod WorkedLoads
mod WorkedLookups
