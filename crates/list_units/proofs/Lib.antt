mod Gathered
mod PlainUnits
mod ReadProgress
mod CoveringEntries
pub mod RangeFaults
pub mod LocationFacts
mod OpenFacts
mod PlacedEntries
mod PlainPlaces
mod PlaceProgress
pub mod PlaceFaults
mod BothReadings
pub mod Zips
pub mod ListingFacts
pub mod FirstOffsets
mod ReadListFacts
