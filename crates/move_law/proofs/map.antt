pub mod MappedPlaces
pub mod SymbolNumbers
