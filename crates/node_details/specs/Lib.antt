pub mod Actions
pub mod Frames
pub mod Matched
pub mod Nodes
pub mod Slots
