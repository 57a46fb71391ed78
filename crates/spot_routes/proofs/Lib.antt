pub mod Apart
pub mod Bounded
pub mod Following
pub mod Stepping
