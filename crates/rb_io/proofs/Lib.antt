mod Lookups
pub mod Printing
mod Reading
