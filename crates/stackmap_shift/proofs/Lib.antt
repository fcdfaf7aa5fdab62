mod Many
mod Starts
mod Rows
mod Again
pub mod Rising
pub mod Laid
pub mod FramesRead
pub mod Sizes
