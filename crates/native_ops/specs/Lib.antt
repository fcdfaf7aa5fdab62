pub mod Classes
pub mod Methods
