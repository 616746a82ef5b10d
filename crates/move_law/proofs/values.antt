pub mod Arithmetic
pub mod HiLoParts
pub mod HiLoSums
pub mod StoredValues
