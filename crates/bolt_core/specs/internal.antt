pub mod CarriedTables
pub mod GivenIndex
pub mod MovedCode
pub mod TableLimits
