pub mod UnitsBack
pub mod UnitsWalk
pub mod Numbers
