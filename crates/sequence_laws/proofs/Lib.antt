pub mod ByIndex
pub mod ByList
pub mod Merge
