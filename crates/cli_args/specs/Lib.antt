pub mod Args
pub mod CommandLine
pub mod CommandLineViews
pub mod Words
