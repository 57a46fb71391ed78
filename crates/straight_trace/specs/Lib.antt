pub mod Reads
pub mod Within
