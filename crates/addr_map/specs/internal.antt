pub mod Columns
pub mod Orders
pub mod Stretches
