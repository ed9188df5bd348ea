pub mod Held
pub mod MemoryDesk
pub mod Outside
pub mod SoundDesk
