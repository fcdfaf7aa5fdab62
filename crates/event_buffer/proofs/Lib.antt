pub mod Leb128
pub mod ReadBack
pub mod Moved
