pub mod Marks
pub mod Ranks
