pub mod Names
pub mod Pieces
pub mod Readings
pub mod Steps
pub mod Texts
