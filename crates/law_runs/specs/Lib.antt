pub mod Runs
pub mod Follows
pub mod Simulation
pub mod Laws
pub mod Countdowns
