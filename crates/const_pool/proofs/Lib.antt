mod TailIndices
pub mod Gaps
pub mod Halts
pub mod FieldTexts
pub mod ParamSlots
pub mod MethodTexts
