pub mod CellContents
pub mod Identity
pub mod LockStep
pub mod MadeAnew
