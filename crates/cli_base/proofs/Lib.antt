pub mod FaultCounts
mod FileReading
pub mod ImageFiles
pub mod InputAnswering
mod ProgramFiles
