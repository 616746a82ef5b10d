pub mod Choices
pub mod AnswerRuns
pub mod LastRuns
pub mod CarriedAnswers
pub mod Weights
pub mod AddressRanges
pub mod Pieces
pub mod FirstRanges
