pub mod Leading
pub mod QuietLines
pub mod PlainSteps
pub mod PassedLines
