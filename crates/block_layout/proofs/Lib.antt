mod ChainLists
mod Counting
mod Disjoint
mod Firsts
mod Marking
mod Members
mod PartLists
mod Paths
pub mod Premises
mod Sorting
mod Splitting
mod Starting
mod Steps
mod Taking
mod UniqueLinks
mod UniqueParts
mod Whole
