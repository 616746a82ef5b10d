pub mod Alike
mod Relocations
mod Parts
mod Roles
mod Cells
mod Misfits
mod Functions
mod Faults
pub mod OneList
pub mod Readings
