pub mod Growing
pub mod Walks
pub mod Among
pub mod Layouts
pub mod Steps
pub mod Ready
pub mod LaidReads
mod LaidRows
pub mod Starting
