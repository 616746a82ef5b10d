pub mod CommandAnswers
pub mod Lines
pub mod RunCommands
