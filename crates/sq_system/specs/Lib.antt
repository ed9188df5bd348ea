pub mod Calls
pub mod Lines
pub mod Starts
pub mod World
