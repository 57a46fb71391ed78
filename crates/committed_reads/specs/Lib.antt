pub mod Early
pub mod Defaults
pub mod Now
