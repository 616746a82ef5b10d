mod Accepted
mod CellFields
mod CellNumbers
mod Direct
mod FrameCount
mod FrameNeeds
mod GivenRoom
mod Joined
mod ListedTables
mod Maps
mod MarkedFrames
mod Near
mod NewArea
pub mod PassedLimits
mod Ranges
mod Rewrites
mod RunCounts
mod ShortReach
mod SomeCode
mod SoundCode
mod TableNeeds
pub mod TableRefusals
mod TableRoom
mod TableSections
mod TablesCarried
mod WrittenOutput
