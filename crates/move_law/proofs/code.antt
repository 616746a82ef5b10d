pub mod CellWidths
pub mod FittingRoles
pub mod Immediates
pub mod InstLists
pub mod InstPlaces
pub mod NextInst
