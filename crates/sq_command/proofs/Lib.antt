pub mod Forms
pub mod NumberTexts
pub mod Words
