pub mod Halves
pub mod Refusals
pub mod RefusalTexts
pub mod Saved
pub mod Texts
