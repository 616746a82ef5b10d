pub mod recording
pub mod run
