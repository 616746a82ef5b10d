pub mod Lines
pub mod LookAnswers
pub mod LookingUp
pub mod Questions
pub mod SampleAnswers
