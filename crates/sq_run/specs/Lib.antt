pub mod FileRuns
pub mod Transcripts
