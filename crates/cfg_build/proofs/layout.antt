pub mod AcceptedCode
pub mod BlockPartition
pub mod FunctionInsts
pub mod InstAddresses
