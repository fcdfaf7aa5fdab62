pub mod Decoding
pub mod Formats
pub mod ClassFormat
pub mod Files
pub mod Reading
pub mod Views
