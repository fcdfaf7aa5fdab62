pub mod SilentSteps
pub mod PassingSteps
pub mod PassingCalls
pub mod PassingReturns
pub mod PassingThrows
pub mod PassingLengths
pub mod ReturnLemmas
pub mod GoingOnward
