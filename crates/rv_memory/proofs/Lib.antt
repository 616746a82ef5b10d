pub mod MemoryBytes
mod Ranks
mod PatchedBytes
pub mod OneMoreNumber
mod PageBytes
pub mod AddressRuns
mod CodeRanges
pub mod CodeKept
pub mod Spaces
pub mod StackLengths
mod Tables
pub mod StackMemory
