pub mod Causes
pub mod Graph
pub mod Limits
pub mod Refusals
