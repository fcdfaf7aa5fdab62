pub mod Totals
pub mod TotalLoop
pub mod PassedTotals
