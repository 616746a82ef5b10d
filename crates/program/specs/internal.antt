pub mod ReadSections
