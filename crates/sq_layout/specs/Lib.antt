pub mod Addresses
pub mod Branches
pub mod Shrinks
pub mod Weights
pub mod Reach
