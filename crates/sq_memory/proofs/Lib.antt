pub mod CellLaws
pub mod RangeLaws
pub mod RegionLaws
pub mod Places
pub mod Near
