pub mod Effects
pub mod Exits
pub mod Search
pub mod Sources
pub mod Places
pub mod Liveness
pub mod Shown
