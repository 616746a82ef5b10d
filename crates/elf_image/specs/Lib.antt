pub mod faults
pub mod file
pub mod internal
pub mod memory
