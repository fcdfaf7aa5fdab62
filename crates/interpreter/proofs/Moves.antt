pub mod Behind
pub mod OneMove
pub mod Followed
pub mod TriedSteps
pub mod PausesSound
pub mod HandLaws
pub mod QuickSteps
pub mod QuickHands
