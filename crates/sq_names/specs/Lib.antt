pub mod Functions
pub mod Listing
pub mod Names
pub mod Placed
pub mod Symbols
