pub mod EdgeText
pub mod LineCounts
