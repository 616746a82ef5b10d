pub mod ByteRuns
pub mod RunOutcomes
pub mod Modes
pub mod Phases
pub mod RunAnswers
pub mod Serving
pub mod SymbolRuns
