pub mod Answers
pub mod Calls
pub mod Inputs
pub mod Runs
pub mod States
pub mod StepAnswers
