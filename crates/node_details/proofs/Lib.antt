pub mod Found
pub mod Matching
