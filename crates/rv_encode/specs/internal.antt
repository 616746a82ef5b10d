pub mod Computations
pub mod HalfForms
pub mod SomeNumber
pub mod PartsOfInst
