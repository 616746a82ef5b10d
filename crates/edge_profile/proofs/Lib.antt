pub mod AscendingPairs
pub mod BlockLists
pub mod LaidOut
pub mod LineLists
mod Merging
mod KnownValues
mod NameEnding
mod NameIndices
mod NameOrder
mod NameTables
pub mod Neighbours
mod Partitions
mod Saying
mod SymbolTables
mod TableIndices
mod Weighing
