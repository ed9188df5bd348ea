pub mod BareRam
pub mod CellLists
pub mod Effects
pub mod QuietRows
pub mod Writes
