mod ByteRunAnswering
mod CellBounds
mod Outcomes
mod RecordAnswering
mod RecordEnds
mod RunAnswering
mod RunEnds
pub mod RunModes
pub mod SymbolRunAnswering
pub mod TabledRanges
