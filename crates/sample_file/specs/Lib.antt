pub mod SampleCode
pub mod SampleText
pub mod FoundCode
