pub mod Reversed
pub mod TextRow
pub mod Lists
pub mod Options
pub mod Tests
