pub mod Folded
pub mod Folding
pub mod Laws
pub mod Staying
