pub mod Extents
pub mod Folds
pub mod HeaderFields
pub mod LowestAddresses
pub mod SegmentExtents
pub mod TextEnds
