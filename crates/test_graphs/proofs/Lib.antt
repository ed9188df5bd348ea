pub mod Looked
pub mod PartRules
pub mod Counts
