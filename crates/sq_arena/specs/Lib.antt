pub mod Entries
pub mod Arena
pub mod Links
pub mod Lends
