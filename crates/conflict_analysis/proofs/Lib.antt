pub mod Following
pub mod Newest
pub mod Marking
pub mod Left
pub mod Resolving
pub mod Back
pub mod Finishing
pub mod Excluding
