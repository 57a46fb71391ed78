pub mod Entries
pub mod LastWrites
