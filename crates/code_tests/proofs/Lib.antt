pub mod WorkedCodes
mod WorkedFrameTables
mod WorkedFrames
mod WorkedHeaps
mod WorkedLayouts
mod WorkedRecords
mod WorkedVersions
mod Lists
