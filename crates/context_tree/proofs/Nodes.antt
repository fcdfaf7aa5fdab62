pub mod Changes
pub mod NodePaths
pub mod NodeContexts
pub mod NodeChildren
pub mod TreeParts
pub mod TreeSteps
pub mod TreeCalls
