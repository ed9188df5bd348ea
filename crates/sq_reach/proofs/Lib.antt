pub mod Flags
pub mod Reaching
pub mod Blocks
pub mod Searches
pub mod Deciding
