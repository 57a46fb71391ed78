pub mod Going
pub mod Tied
pub mod Answers
pub mod Used
pub mod Ranks
pub mod Raised
pub mod Conflicts
pub mod Logged
