mod Grown
mod Rounds
mod Ways
pub mod Lists
pub mod Appended
pub mod Holders
mod InputBytes
mod BlockEndsFound
pub mod Bridge
pub mod Placed
mod BlockEndFacts
mod Sizes
mod Near
mod Lands
mod Mapped
pub mod Map
mod Made
mod Examples
pub mod Covered
pub mod Falls
pub mod Orders
pub mod Planned
pub mod Laid
pub mod BlockSpans
pub mod LaidBlocks
pub mod WholeMoves
