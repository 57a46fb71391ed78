pub mod Misnamings
pub mod Places
pub mod Resolution
pub mod Signatures
pub mod Tables
pub mod Targets
