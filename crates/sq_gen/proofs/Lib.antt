pub mod WordCounts
