pub mod Lines
pub mod Happening
pub mod Scanning
pub mod Synced
pub mod Laws
