mod Filling
pub mod OnlyAnswers
pub mod Quiet
pub mod Reading
pub mod SameStates
pub mod Told
pub mod Walking
