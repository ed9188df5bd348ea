pub mod FlashLemmas
pub mod Flashes
pub mod LineLemmas
pub mod Loads
pub mod ReadLemmas
pub mod RoundTrip
pub mod TextLemmas
