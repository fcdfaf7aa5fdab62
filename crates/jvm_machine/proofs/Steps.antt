pub mod Going
pub mod Exits
pub mod QuietSteps
pub mod Turned
pub mod SeveralTurns
pub mod Quickly
pub mod Onward
pub mod InHand
