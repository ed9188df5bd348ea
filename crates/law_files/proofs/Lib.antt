pub mod FileBytes
pub mod FileRegions
pub mod FileImages
pub mod TextSegment
