pub mod Rules
pub mod MachineState
pub mod SymStart
pub mod SymStep
pub mod Values
pub mod internal
pub mod HiddenEntries
