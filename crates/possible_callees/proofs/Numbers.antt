pub mod Adding
pub mod Choosing
pub mod TableLemmas
pub mod Rising
pub mod Fronts
