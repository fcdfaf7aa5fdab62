pub mod ProjectedCounts
pub mod Projected
pub mod ProjectedPlain
pub mod SeenRuns
pub mod Headline
pub mod WorkedTrees
