mod Examples
mod ListSteps
pub mod TablesBelow
pub mod RangeLists
mod BadTables
pub mod OwnRanges
pub mod NotedLists
pub mod IndexWeights
