pub mod Output
pub mod Plain
pub mod Points
pub mod Pieces
pub mod Written
pub mod Standing
pub mod Laid
pub mod Alike
