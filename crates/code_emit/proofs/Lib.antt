mod Standing
mod Coded
mod Parts
mod Fit
mod CanStand
mod Keeps
mod Walk
mod StripEnds
mod Next
mod Flows
mod Pieces
mod Facts
mod EmitKeeps
mod AllBlocks
pub mod Accepted
pub mod SpanBytes
