mod Values
pub mod Writes
