mod AddressSets
pub mod Chosen
mod Cuts
mod Decoded
mod FileBytes
pub mod FullLookup
mod Inside
pub mod LoadedNumbers
pub mod PartLookup
mod RangeLists
pub mod StartLists
pub mod WholeLookup
