pub mod Links
pub mod PoolValue
pub mod Blocks
pub mod WatchLists
