pub mod Calls
pub mod Presence
pub mod Ranges
pub mod Rows
pub mod Starts
pub mod State
pub mod Steps
pub mod Views
