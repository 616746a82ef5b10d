pub mod FileFaults
pub mod LowestPlace
pub mod SegmentLayout
pub mod Truncation
