pub mod Complaints
pub mod HostDesk
pub mod Streams
