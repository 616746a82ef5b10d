pub mod ListBytes
pub mod FullLists
pub mod WrittenTables
pub mod TableGroups
pub mod WrittenRanges
pub mod WrittenLocations
