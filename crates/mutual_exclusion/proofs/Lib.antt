pub mod Syncs
pub mod Tallies
pub mod Excluding
