pub mod Break
pub mod CodeSegment
pub mod Executables
pub mod HiddenFields
pub mod Image
pub mod LoadedBytes
