pub mod ClusterState
pub mod FirstFaults
pub mod Groups
pub mod HeaviestCallers
pub mod TieList
