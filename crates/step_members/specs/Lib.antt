pub mod AtActions
pub mod Stages
pub mod Members
