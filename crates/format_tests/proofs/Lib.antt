mod WorkedArithmetic
pub mod WorkedClass
mod WorkedClassBytes
mod WorkedDescriptors
mod WorkedDraws
mod WorkedOpcodes
mod WorkedPools
mod WorkedRoots
mod WorkedSources
mod WorkedTexts
