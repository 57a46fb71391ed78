pub mod Formed
pub mod Gating
pub mod Raising
pub mod Agreeing
