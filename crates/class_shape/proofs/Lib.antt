pub mod SameParts
pub mod ShapeLaws
pub mod ImageShapes
pub mod SwapLaws
pub mod WorkedShapes
pub mod WorkedSwaps
