pub mod Flash
pub mod Lines
pub mod Meaning
pub mod Records
pub mod States
pub mod Texts
