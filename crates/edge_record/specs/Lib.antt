pub mod AddressSets
pub mod EdgeCounts
pub mod Moves
pub mod RecordedRuns
pub mod MoveCounts
pub mod Texts
pub mod WatchedRuns
