pub mod Least
pub mod Path
pub mod Places
