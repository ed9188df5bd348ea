mod AtomicRows
pub mod Codes
pub mod Encoded
pub mod Immediates
pub mod Joining
pub mod Reading
pub mod Renaming
mod Same
mod Sets
pub mod Unique
