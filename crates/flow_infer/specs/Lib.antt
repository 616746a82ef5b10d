pub mod Flows
pub mod Heights
pub mod Laws
pub mod Links
pub mod Networks
pub mod Repairing
pub mod Repairs
pub mod Sources
