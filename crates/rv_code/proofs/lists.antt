pub mod Blocks
pub mod Follows
pub mod FunctionAt
