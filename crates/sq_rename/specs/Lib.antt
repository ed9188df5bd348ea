pub mod Shapes
pub mod Renamings
pub mod Bodies
pub mod Reservations
pub mod Pairs
pub mod Inverses
pub mod Prints
pub mod Walks
