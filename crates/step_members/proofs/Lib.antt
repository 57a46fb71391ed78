pub mod Gaining
mod Present
pub mod InOrder
pub mod Membership
pub mod Walking
pub mod Entries
pub mod Parts
pub mod Conditions
