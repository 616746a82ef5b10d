pub mod FittingOperands
pub mod InstWords
pub mod internal
