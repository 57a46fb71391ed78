pub mod Counts
pub mod Locking
