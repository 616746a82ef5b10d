pub mod NewInsts
pub mod Bytes
pub mod Inputs
pub mod Output
