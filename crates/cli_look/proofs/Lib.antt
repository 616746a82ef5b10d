pub mod LookAnswering
pub mod LookingUp
pub mod SampleAnswering
