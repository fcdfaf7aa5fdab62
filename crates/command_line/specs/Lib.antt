pub mod Described
pub mod Words
pub mod Reading
pub mod Chosen
pub mod Input
pub mod Raw
