mod Cells
pub mod Accessing
mod Calling
pub mod Rows
pub mod TextKept
