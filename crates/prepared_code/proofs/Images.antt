pub mod ImageVersions
pub mod LaidRewritten
pub mod RewrittenVersions
pub mod RewrittenLines
pub mod ClassVersionLaws
pub mod MethodImages
