pub mod Items
pub mod Conditions
pub mod NumberLaws
pub mod OperandLaws
pub mod Many
pub mod Lengths
pub mod Spelled
pub mod Readings
pub mod Fronts
pub mod Again
mod ReadRows
