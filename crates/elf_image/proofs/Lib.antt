mod CodeLemmas
pub mod CutLists
mod Examples
mod ExtentLemmas
pub mod FaultOrder
mod Folds
pub mod LoadLemmas
pub mod LowSegments
pub mod LowestPlaces
mod NearEnds
pub mod NumberBytes
pub mod ReachLemmas
pub mod ReadLists
pub mod ReadableFiles
mod SectionLemmas
mod SegmentExtentLemmas
mod TruncatedPlaces
mod ZeroPlaces
