mod Examples
pub mod Assembling
pub mod CodeWordCount
pub mod Files
pub mod Fitting
pub mod Plainly
pub mod PointFields
pub mod Laying
pub mod Lengths
pub mod PieceWalks
pub mod Renaming
pub mod SegmentFacts
pub mod Segments
pub mod Splitting
pub mod TextWalks
pub mod Texts
pub mod WordEntries
pub mod AlikeGraphs
