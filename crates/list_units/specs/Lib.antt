pub mod Gathering
pub mod RangeReading
pub mod UnitLocations
pub mod OpenEntries
pub mod Placing
pub mod PlaceReading
pub mod ReadLists
pub mod Listing
