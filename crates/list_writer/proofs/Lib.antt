pub mod SpelledEntries
pub mod ListsBack
pub mod WrittenLists
mod SpelledRanges
mod SpelledLists
pub mod PutEntries
mod UnitTables
pub mod HeldRuns
pub mod UnitSteps
mod GroupSteps
pub mod ListsThere
pub mod BasesThere
mod SpelledLocations
pub mod ForcedRuns
mod NumberedRanges
