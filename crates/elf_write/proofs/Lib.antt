pub mod AddedSections
pub mod AreaTables
pub mod GivenTables
pub mod OtherTables
pub mod TablesStand
