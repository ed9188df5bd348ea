pub mod Following
mod Examples
