mod CallBounds
mod CallLists
mod CalleeOrder
mod ClusterMoves
mod ClusterParts
mod Gained
mod GroupMoves
mod Heaviest
mod InstOrder
mod LowestMembers
mod Moving
mod OnlyHeaviest
mod OrderFacts
mod PlacementFaults
mod Ranked
mod Ranking
mod Sweep
pub mod TiedBlocks
mod Times
mod TieGroups
mod TieSets
mod UnitClasses
mod UnitLine
mod UnitSums
pub mod WorstPositive
