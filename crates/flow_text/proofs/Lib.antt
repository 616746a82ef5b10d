mod BlockAddresses
mod BlockRanges
pub mod ChangeBound
mod Cuts
mod FlowOrder
mod PlacedFlows
pub mod ProfilePairs
mod RepairedTexts
