pub mod BlockLists
pub mod EdgeLists
pub mod NamedAddresses
