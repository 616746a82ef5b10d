pub mod FunctionParts
pub mod InstLists
pub mod Referents
pub mod Targets
pub mod ValidInsts
