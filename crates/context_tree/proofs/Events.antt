pub mod Counted
pub mod Folded
pub mod EventCalls
pub mod Giving
pub mod Credits
