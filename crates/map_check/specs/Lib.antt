pub mod BadSpans
pub mod FirstFalse
pub mod Lacking
pub mod MapReading
pub mod internal
