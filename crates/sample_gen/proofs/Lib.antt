pub mod Placed
pub mod RunWeights
pub mod Listless
pub mod LightTables
pub mod NameWeights
