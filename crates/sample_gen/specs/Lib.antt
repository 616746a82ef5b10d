pub mod Faultless
pub mod internal
pub mod Sample
