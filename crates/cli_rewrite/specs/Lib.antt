pub mod FramesLaw
pub mod InputAnswers
pub mod Lines
pub mod MapAnswers
pub mod Phases
pub mod RewriteAnswers
