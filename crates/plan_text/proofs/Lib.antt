pub mod Dots
pub mod Digits
pub mod Pieces
pub mod WorkedPlans
pub mod OneAnswer
pub mod Within
