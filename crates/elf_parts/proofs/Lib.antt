pub mod JoinedParts
pub mod MoreNames
pub mod Patches
pub mod ReadBack
pub mod SameBytes
pub mod Spellings
pub mod TablesRead
