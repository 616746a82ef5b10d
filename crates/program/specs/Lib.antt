pub mod Limits
pub mod Program
pub mod Refusals
pub mod Room
pub mod internal
