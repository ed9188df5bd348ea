pub mod Rewriting
pub mod Naming
