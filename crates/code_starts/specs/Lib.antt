pub mod AddressSets
pub mod Halves
pub mod LoadedMemory
pub mod Parts
pub mod Ranges
pub mod Starts
pub mod StartSets
pub mod WholeParts
