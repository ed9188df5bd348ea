pub mod Cells
pub mod Regions
pub mod Contents
