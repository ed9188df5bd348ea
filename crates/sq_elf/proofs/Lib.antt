pub mod Accepted
pub mod Apart
pub mod Parts
pub mod Passing
pub mod TextFacts
