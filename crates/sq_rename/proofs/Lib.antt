pub mod Equals
pub mod Forms
mod Joining
pub mod Places
mod Exchanges
pub mod Bodies
mod Dead
mod Sizes
mod LiveApart
pub mod Prints
mod Started
