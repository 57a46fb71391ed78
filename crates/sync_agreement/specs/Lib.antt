pub mod Gates
pub mod Latest
pub mod Placed
