pub mod HexDigits
mod TextAt
pub mod UnsignedLeb
mod ReaderAnswers
pub mod SignedLeb
pub mod DigitValues
pub mod Gains
pub mod Members
pub mod Searches
pub mod ListLemmas
pub mod SpelledBack
pub mod Stable
pub mod Lacks
pub mod PartitionPoints
pub mod Permuted
pub mod Results
pub mod Tests
pub mod NumberBytes
pub mod Options
pub mod RangeCounts
pub mod NumberTexts
