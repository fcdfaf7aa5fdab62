pub mod EntryMarks
pub mod ReturnCodes
pub mod VersionProbes
pub mod BeforeReturns
pub mod ToldProbes
pub mod ToldFrames
pub mod SeenLaws
