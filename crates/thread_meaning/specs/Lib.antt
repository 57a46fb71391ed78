pub mod Changes
pub mod Doings
pub mod Effects
pub mod Laws
pub mod Outcomes
pub mod Paths
pub mod Tracing
pub mod Values
