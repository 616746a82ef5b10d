pub mod EdgeCounts
pub mod EdgeLists
pub mod HotAndCold
pub mod Laws
pub mod FirstLinks
pub mod Links
pub mod Parts
pub mod Walks
