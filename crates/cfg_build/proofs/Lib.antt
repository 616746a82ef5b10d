mod EdgeRows
mod Entered
pub mod layout
mod EdgeSets
mod Leads
mod Lookups
mod PushedBlocks
