pub mod Lifted
pub mod Files
pub mod LiveLinks
pub mod LiftedFiles
pub mod Same
