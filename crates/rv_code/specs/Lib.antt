pub mod isa
pub mod layout
pub mod machine
