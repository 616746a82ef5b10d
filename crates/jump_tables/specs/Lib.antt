pub mod TablePairs
