pub mod GivenFiles
pub mod Judged
pub mod Phases
pub mod RepairAnswers
pub mod RepairedFiles
pub mod VerdictLines
pub mod VerifiedFiles
pub mod VerifyAnswers
