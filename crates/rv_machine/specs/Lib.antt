pub mod KnownInsts
pub mod State
pub mod StepResults
