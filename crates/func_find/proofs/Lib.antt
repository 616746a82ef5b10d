mod FunctionLists
pub mod Judged
mod MisledPlaces
mod NoRole
mod PlacedAt
mod Placing
mod ReferredLists
mod StartsApart
