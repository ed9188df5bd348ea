pub mod Memories
pub mod Loading
pub mod Calling
pub mod Rows
pub mod Deeds
pub mod LiveTargets
pub mod LiveSteps
pub mod Starts
pub mod Patch
mod Shrink
pub mod Keeping
pub mod Used
pub mod Lines
pub mod Changing
mod Parts
pub mod Places
mod Dead
pub mod Moving
mod Dying
pub mod Carrying
pub mod Layouts
pub mod Restricting
pub mod Standing
mod Remaining
pub mod Detouring
mod Relating
mod Placing
mod Ending
pub mod Inverting
pub mod Exchanging
mod Replacing
pub mod Calls
mod Matching
pub mod MatchedBack
pub mod MatchedCalls
pub mod MatchedItems
pub mod OneBlock
mod Leading
mod Meeting
pub mod Merging
pub mod EndsLive
pub mod MatchedBodies
mod MergeExamples
pub mod Tailing
pub mod Recalling
pub mod Inserting
pub mod Reordering
pub mod Saving
pub mod Shortening
pub mod Bypassing
pub mod Joining
pub mod Renaming
pub mod StayingDead
pub mod StayingLive
