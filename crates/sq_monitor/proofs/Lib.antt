pub mod QuietSteps
pub mod Placing
pub mod Scenes
pub mod Items
pub mod Outcomes
pub mod Watching
pub mod FirstCells
pub mod FileWorlds
pub mod SegmentFacts
pub mod Headers
pub mod FileStarts
pub mod Telling
mod ZeroCells
mod Regions
