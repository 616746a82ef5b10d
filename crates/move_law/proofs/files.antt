pub mod EntryField
pub mod Executables
pub mod Numbers
pub mod Rights
pub mod Stack
