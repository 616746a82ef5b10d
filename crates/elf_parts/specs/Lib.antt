pub mod Assembly
pub mod Numbers
pub mod Parts
pub mod Patches
pub mod Spellings
