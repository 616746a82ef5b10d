mod CoverTreeFacts
pub mod SmallSteps
pub mod GroupFacts
mod FirstStarts
pub mod EntryOrderFacts
mod MemberLists
pub mod AlikeAddresses
pub mod AlikeLists
pub mod SameMapped
pub mod ByNumbers
mod KeptListFacts
mod GroupRunFacts
mod ListRunFacts
mod FoundLists
mod StretchFacts
mod StretchRuns
mod CarriedLists
