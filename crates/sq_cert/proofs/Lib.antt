pub mod Counts
pub mod Lines
pub mod Numerals
pub mod RoundTrip
pub mod Splitting
