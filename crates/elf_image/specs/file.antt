pub mod CutLists
pub mod Cuts
pub mod Header
pub mod ParsedFile
pub mod SectionNames
pub mod Sections
pub mod StringTables
pub mod Symbols
