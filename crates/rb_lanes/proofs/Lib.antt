mod Masks
pub mod Walked
