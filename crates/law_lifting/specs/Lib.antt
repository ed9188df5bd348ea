pub mod Lifting
pub mod Watching
