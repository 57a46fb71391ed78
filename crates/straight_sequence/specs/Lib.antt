pub mod Defaults
pub mod Steps
