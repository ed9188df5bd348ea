pub mod Traces
pub mod Breaks
pub mod Steps
pub mod Follow
pub mod Simulate
pub mod LittleRuns
pub mod Loops
