pub mod InLoadOrder
pub mod SubtypeSteps
pub mod LoadStep
pub mod InTurn
