pub mod LowBytes
pub mod RelatedMemory
pub mod Runs
pub mod OnlyRuns
