pub mod Opposites
pub mod Members
pub mod Consequence
