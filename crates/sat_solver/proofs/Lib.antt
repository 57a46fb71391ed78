pub mod Assigned
pub mod Empty
pub mod Added
pub mod Answered
pub mod Fewer
