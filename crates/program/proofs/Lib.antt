mod CodeFaultOrder
mod CodeLimits
mod CodeSizes
pub mod Programs
mod ReadPrograms
