pub mod Machine
pub mod DeterminedRuns
pub mod Step
pub mod MemoryNumbers
