pub mod Rest
pub mod Told
pub mod Pauses
pub mod StepPauses
pub mod InHand
