pub mod Covering
pub mod Tight
pub mod FirstTakers
pub mod Known
