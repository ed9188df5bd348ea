mod Bareness
pub mod Blocks
mod Finding
mod Relabelling
mod Growing
mod Histories
mod Leading
pub mod Levels
mod Parting
mod Places
pub mod Referred
mod Refining
mod Shapes
mod Splits
