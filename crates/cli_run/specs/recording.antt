pub mod Phases
pub mod RecordAnswers
pub mod RecordRuns
