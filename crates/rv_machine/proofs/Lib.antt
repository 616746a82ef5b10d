mod Branches
mod Breaks
mod KnownEntries
mod Outcomes
mod Fetches
mod CallSteps
mod Registers
mod Determined
pub mod LastSteps
