pub mod Grouped
pub mod Index
pub mod Labels
pub mod Nodes
pub mod Partition
pub mod Splitting
pub mod Stable
pub mod Walks
