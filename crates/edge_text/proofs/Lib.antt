mod LineSums
mod LineTexts
mod NumberTexts
mod ReadBack
pub mod SaidPairs
pub mod Starts
