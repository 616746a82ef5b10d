pub mod Fault
pub mod Text
pub mod Readers
pub mod Leb
pub mod Lists
pub mod Options
pub mod FirstFault
