pub mod BlockStretches
pub mod EntrySums
pub mod FrameNeeds
