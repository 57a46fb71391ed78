pub mod LineText
pub mod Propagation
pub mod Refutations
