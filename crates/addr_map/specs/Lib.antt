pub mod MapText
pub mod Spans
pub mod internal
