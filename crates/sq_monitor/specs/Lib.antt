pub mod Views
pub mod Steps
pub mod Outcomes
pub mod FileCells
pub mod Zeros
pub mod Starts
pub mod Transcripts
