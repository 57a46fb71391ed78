pub mod Acting
pub mod Apart
pub mod Consistent
pub mod Leaving
pub mod Over
pub mod Seen
pub mod Standing
