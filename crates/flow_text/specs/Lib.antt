pub mod LinkLists
pub mod MergedFlows
pub mod RepairedCounts
pub mod Report
