pub mod Cuts
pub mod Applied
pub mod Counted
pub mod Rewrites
